mod Stages
mod Walks
mod Words
