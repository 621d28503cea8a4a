mod Answering
mod Correctness
mod Running
mod LongInputs
mod SameAnswers
mod Taking
