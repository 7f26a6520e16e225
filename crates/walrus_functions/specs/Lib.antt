pub mod Alike
pub mod Appending
pub mod Code
pub mod DeclaredLocals
pub mod Declaring
pub mod EmittedBody
pub mod Handlers
pub mod Held
pub mod Kept
pub mod Known
pub mod Laws
pub mod Marked
pub mod Plain
pub mod Ranked
pub mod ReadFunction
pub mod Signatures
pub mod Writing
pub use Rattle.walrus_bodies.specs.Body
pub use Rattle.walrus_bodies.specs.BodyRead
pub use Rattle.walrus_bodies.specs.FunctionTypes
pub use Rattle.walrus_bodies.specs.declared.features.Features
pub use Rattle.walrus_code.specs.FromRaw
pub use Rattle.walrus_code.specs.Names
pub use Rattle.walrus_code.specs.Transform
pub use Rattle.walrus_bodies.specs.Blocks
pub use Rattle.walrus_bodies.specs.Classes
pub use Rattle.walrus_bodies.specs.Function
pub use Rattle.walrus_bodies.specs.Plain as PlainBodies
pub use Rattle.walrus_bodies.specs.PlainCode
pub use Rattle.walrus_bodies.specs.Scanned
pub use Rattle.walrus_bodies.specs.Text
pub use Rattle.walrus_bodies.specs.contracts.function.LocalFunction as FunctionRow
pub use Rattle.walrus_bodies.specs.declared.function.LocalFunction
pub use Rattle.walrus_bodies.specs.declared.blocks.Opened
pub use Rattle.walrus_bodies.specs.Features as AllowedFeatures
