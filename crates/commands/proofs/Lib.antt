mod LineWords
mod EntryWords
mod FewWords
mod Declared
mod Saved
mod SavedAgain
mod SavedBytes
