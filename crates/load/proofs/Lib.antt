mod Inputs
mod Records
