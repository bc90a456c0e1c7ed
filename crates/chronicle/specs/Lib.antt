pub mod Events
pub mod Fronts
pub mod Rules
pub mod Laws
