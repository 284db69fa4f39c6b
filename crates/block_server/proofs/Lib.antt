pub mod Serving
pub mod SaidOfAnswers
pub mod Shapes
pub mod GivenParts
