mod Rooms
mod Words
mod Lines
mod Texts
