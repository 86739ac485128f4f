pub mod RowShapes
pub mod Items
pub mod Nodes
