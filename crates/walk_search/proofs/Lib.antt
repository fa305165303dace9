mod Assigned
mod Spent
mod Answered
mod Nothing
mod Owned
mod Apart
