-- What is claimed: plain words and what they give each option, what `clap` holds, the commands, and
-- what words hold.
pub mod Plain
pub mod Held
pub mod Program
pub mod Reading
-- Workings: the options of the code as those of the definitions.
pub mod Options
