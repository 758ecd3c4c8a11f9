-- What the top calls promise is said in the words of these definitions, and each of them is reached: so these have to be believed.
pub mod Answer
pub mod Expressions
pub mod Lexing
pub mod Pieces
pub mod Programs
pub mod Promise
pub mod Spelling
pub mod Statements
pub mod Words
