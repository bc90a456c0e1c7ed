mod Splits
mod Keys
