mod Steps
mod Asking
mod Runs
