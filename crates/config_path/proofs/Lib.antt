mod Pieces
mod StandardFacts
