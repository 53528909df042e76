pub mod Playing
pub mod Answers
pub mod Printing
pub mod Fronts
pub mod Numbers
pub mod Laws
