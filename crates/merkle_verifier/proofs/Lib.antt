mod Cuts
mod Flags
mod Grown
mod JoinedDigests
mod Located
mod Spelled
