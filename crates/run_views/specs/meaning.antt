-- What the top calls promise is said in the words of these definitions, and each of them is reached: so these have to be believed.
pub mod Deadlocks
pub mod Links
pub mod Order
pub mod OrderText
pub mod Waits
pub mod Why
