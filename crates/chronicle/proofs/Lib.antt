mod Fronts
mod Adding
mod Legal
