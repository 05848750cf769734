pub mod Alloys
