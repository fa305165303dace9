mod Queues
mod Written
