use Rattle.walrus.specs.Base.Id.{place}
use Rattle.walrus.specs.Contents.View.{parts_view}
use Rattle.walrus_tools.proofs.CallersTurn.{no_type_member}
use Rattle.walrus_tools.proofs.referrers.groups_with.Goals as goal

pub returns-in-Type-Type : goal.returns-in-Type-Type
returns-in-Type-Type c = rw (c.in-Type-Type.is-0, c.in-Type-Type.is-1) c.is_in_group.ensures

pub returns-in_default : goal.returns-in_default
returns-in_default c = rw c.in_default.is-0 (λ h. absurd (cc), λ member. absurd (no_type_member (parts_view c.args.parts) (place c.in_default.field-0-0) c.args.other c.in_default.not-Type-1 member))
