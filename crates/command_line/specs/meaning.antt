-- What the top calls promise is said in the words of these definitions, and each of them is reached: so these have to be believed.
pub mod Arguments
pub mod AuditWords
pub mod CkptWords
pub mod LogWords
pub mod Numbers
pub mod ResumeWords
pub mod WhyWords
pub mod Words
