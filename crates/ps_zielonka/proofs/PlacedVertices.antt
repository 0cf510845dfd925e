-- Lists of vertices: sorted by descending priority, placed in the trail, and of at least a level.

pub mod Boards
pub mod Counted
pub mod Grown
pub mod Orders
pub mod Ranked
pub mod Sets
