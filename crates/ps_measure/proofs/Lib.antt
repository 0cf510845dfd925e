pub mod LinksOfEdges
pub mod CountRows
pub mod RaisedCounts
