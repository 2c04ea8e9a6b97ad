-- Laws and theorems, by what they are about. Each group has a file that lists it, and a folder.
pub mod Runs
pub mod Files
pub mod Answering
pub mod Stages
pub mod Covering
