mod Lists
mod Making
