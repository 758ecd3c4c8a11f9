pub mod Classes
pub mod ExpressionReaders
pub mod Gives
pub mod Laws
pub mod ProgramReaders
pub mod Reading
pub mod StatementReaders
pub mod WholeText
