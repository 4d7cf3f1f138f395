mod Least
mod Answers
