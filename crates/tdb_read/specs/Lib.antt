-- claims: what a database holds, what is true of every one, the form of each command, the fold of the commands, and their first fault
pub mod Database
pub mod Sound
pub mod Entering
pub mod Element
pub mod Function
pub mod Phase
pub mod Constituent
pub mod Parameter
pub mod TypeDefinition
pub mod Commands
pub mod Folding
pub mod Outcomes
