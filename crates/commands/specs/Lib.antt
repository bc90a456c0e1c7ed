pub mod Words
pub mod Commands
pub mod ScenarioLine
pub mod Opening
pub mod Laws
pub mod Names
