mod Appending
mod Entries
mod Following
