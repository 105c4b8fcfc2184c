pub mod Photographs
