-- What is claimed: the forms of values, what each order keeps, what words say, and the law of plain words.
pub mod Forms
pub mod Requests
pub mod Saying
pub mod PlainWords
-- Workings: numbers up to a cap, and what texts ask for.
pub mod Capped
pub mod Texts
