mod Steps
mod Lent
mod Asking
