pub mod NextTokens
