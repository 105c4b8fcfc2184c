mod Rows
mod Stacks
mod Sightings
mod Founds
mod Backs
mod Cases
mod Turns
mod Promises
