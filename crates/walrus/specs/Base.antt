-- Words of `walrus_base`, for those who stand on this crate.
pub use Rattle.walrus_base.specs.Alone
pub use Rattle.walrus_base.specs.Arena
pub use Rattle.walrus_base.specs.Composite
pub use Rattle.walrus_base.specs.Id
pub use Rattle.walrus_base.specs.IdSet
pub use Rattle.walrus_base.specs.Locals
pub use Rattle.walrus_base.specs.Marks
pub use Rattle.walrus_base.specs.ModuleTypes
pub use Rattle.walrus_base.specs.Operators
pub use Rattle.walrus_base.specs.PlaceList
pub use Rattle.walrus_base.specs.TypeDef
pub use Rattle.walrus_base.specs.TypeSlots
pub use Rattle.walrus_base.specs.Types
pub use Rattle.walrus_base.specs.Whole
pub use Rattle.walrus_base.specs.declared.id.Id as IdValue
pub use Rattle.walrus_base.specs.declared.keys.DataKey
pub use Rattle.walrus_base.specs.declared.keys.ElementKey
pub use Rattle.walrus_base.specs.declared.keys.FunctionKey
pub use Rattle.walrus_base.specs.declared.keys.ImportKey
pub use Rattle.walrus_base.specs.declared.keys.LocalKey
pub use Rattle.walrus_base.specs.declared.keys.TypeKey
pub use Rattle.walrus_base.specs.declared.locals.ModuleLocals
pub use Rattle.walrus_base.specs.declared.marks.Marks as MarksValue
pub use Rattle.walrus_base.specs.declared.module_types.ModuleTypes as ModuleTypesValue
