pub mod Energies
pub mod Heights
pub mod Halves
pub mod Rises
