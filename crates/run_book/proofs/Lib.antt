mod Answering
mod Counted
mod Counting
mod RecordedCores
mod Leading
mod Order
mod Sites
mod Tickets
