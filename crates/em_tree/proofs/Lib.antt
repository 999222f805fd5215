mod Tables
mod Bars
mod Layers
mod Join
mod Puts
mod Opened
mod OpenedLayers
mod OpenedTrees
mod OpenedExprs
mod OpenedItems
mod Adds
mod ItemAdds
mod Edges
mod Ends
pub mod GrammarLaws
pub mod ExampleLaws
