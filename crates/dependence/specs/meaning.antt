-- What the top calls promise is said in the words of these definitions, and each of them is reached: so these have to be believed.
pub mod Conflict
pub mod Counts
pub mod Dependents
pub mod Journal
pub mod Restarts
pub mod Runs
