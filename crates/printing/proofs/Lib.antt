mod Escaping
mod Room
