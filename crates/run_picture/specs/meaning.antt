-- What the top calls promise is said in the words of these definitions, and each of them is reached: so these have to be believed.
pub mod Attempts
pub mod Elements
pub mod Picture
