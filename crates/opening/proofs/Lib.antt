mod Opened
mod Tables
