-- What sections without custom ones read as.
use Rattle.std.proofs.Common.{◌≡◌, ℕ, Bool, true, false, List, [], length, map, zip, refl, sym, ap, subst}
use Rattle.std.specs.Prelude.{bytes_eq, codes, filter, if◌then◌else◌}
use Rattle.std.specs.List.{AllZip}
use mathlib.Core.Path.{fun_ext}
use Rattle.wasm_frames.specs.Frames.{Frames}
use Rattle.wasm_frames.specs.Order.{InOrder}
use Rattle.wasm_frames.specs.Record as wire
use Rattle.wasm_payloads.specs.Names.{Names}
use Rattle.wasm_payloads.specs.Producers.{Fields}
use Rattle.walrus_model.specs.Abstract.{Name, Subject}
use Rattle.walrus_model.specs.Config.{Config}
use Rattle.walrus_model.specs.Sections as sections
use Rattle.walrus_model.specs.Sections.{Said}
use Rattle.walrus_theorem.specs.Headline.{ReadsBody, ReadsModule, has_function, payloads, DataCountHolds}
use Rattle.walrus_theorem.specs.Namings.{is_in_range}
use Rattle.walrus_theorem.specs.Sections.{module_of}

pub no_names : (t : Bool) → ◌≡◌ {A = List Name} (if t then [] else []) []
no_names true = refl
no_names false = refl

-- with neither producers nor namings
pub said_alone : (s : wire.Module) (bodies : List Said) → module_of s bodies [] [] ≡ sections.module_of s bodies
said_alone s bodies = ap (λ (named : Subject → List Name). record (sections.module_of s bodies) { named = named }) (fun_ext (λ x. no_names (is_in_range (sections.module_of s bodies) x)))

no_payloads : (name : Name) (s : wire.Module) → s.customs ≡ [] → payloads name s ≡ []
no_payloads name s e = ap (λ (cs : List wire.Custom). map (λ (c : wire.Custom). c.bytes) (filter (λ (c : wire.Custom). bytes_eq c.name name) cs)) e

-- sections without custom ones read as what they say
pub reads_plain : (c : Config) (bytes : List ℕ) (s : wire.Module) (bodies : List Said) → Frames bytes s → s.customs ≡ [] → InOrder s.order → length s.bodies ≡ length s.functions → DataCountHolds s
    → AllZip (ReadsBody c s) (zip s.functions s.bodies) bodies → ReadsModule c bytes (sections.module_of s bodies)
reads_plain c bytes s bodies framed none in_order as_many counted read =
    record {
      sections = s;
      framed = framed;
      in_order = in_order;
      as_many_bodies = as_many;
      data_count = counted;
      bodies = bodies;
      read = read;
      namings = [];
      named = subst (λ ps. AllZip (Names (has_function s)) ps []) (sym (no_payloads (codes "name") s none)) tt;
      fields = [];
      produced = subst (λ ps. AllZip Fields ps []) (sym (no_payloads (codes "producers") s none)) tt;
      is = sym (said_alone s bodies);
    }
