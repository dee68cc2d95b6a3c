pub mod Medic
