-- What only the contracts of leaves and inner functions cite: a reader need not believe it. Stands: a block's state in the code as the definition has it.
pub mod Stands
