-- A single call of `lower` for each packet and struct of a record: the record with that name in its `target` line, as bytes in.
-- Assumes nothing.
use Rattle.std.specs.Prelude.{true, false, List, [], ◌∷◌, ◌≤◌, length}
use Rattle.definitions.specs.Bytes.{Text, part}
use Rattle.definitions.specs.Sizes.{Schema, Entry}
use Rattle.definitions.specs.Refusals.{is_frame}
use Rattle.definitions.specs.Answer.{answer}
use Rattle.definitions.specs.All.{Outcomes, accepted_all, with_section}
use Rattle.definitions.specs.declared.Head.{Head}
use Rattle.alike.specs.Retarget.{with_target}

-- the packets and structs, in file order
unfoldable pub frames : Schema → List Entry
frames [] = []
frames (e ∷ es) = elim (is_frame e.row.decl.desc) [ true ↦ e ∷ frames es | false ↦ frames es ]

module _ (s : Text) (h : Head) where
  abbrev pub name_of : Entry → Text
  name_of e = part s e.row.decl.id

  -- the record that asks for this declaration
  abbrev pub call_of : Entry → Text
  call_of e = with_target s h (name_of e)

  -- a single call for each: the first that is refused refuses all
  unfoldable pub calls : List Entry → Outcomes
  calls [] = accepted_all []
  calls (e ∷ es) = with_section (name_of e) (answer (call_of e)) (calls es)

  -- each call's record is no longer than a record may be: a name that is longer than the one in the `target` line can make it so
  abbrev pub CallsFit : List Entry → Type 0
  CallsFit [] = Unit {0}
  CallsFit (e ∷ es) = (length (call_of e) ≤ 16384) × CallsFit es
