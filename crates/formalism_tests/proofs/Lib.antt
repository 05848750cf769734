mod Boxes
mod Phases
