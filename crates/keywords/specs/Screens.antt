-- What a reader hands out of what the form reads (document 02, Card 6): the same where no name in it is a keyword of C++; else the place behind
-- it alone, from which the form is read on. A line that breaks the form breaks it with any names.
-- Assumes nothing.
use Rattle.std.specs.Prelude.{Option, Some, None, Result, Ok, Err, Bool}
use Rattle.definitions.specs.Record.{Read}
use Rattle.definitions.specs.declared.FieldDesc.{FieldDesc}
use Rattle.definitions.specs.declared.Condition.{Condition}
use Rattle.definitions.specs.declared.Field.{Field}
use Rattle.definitions.specs.declared.Head.{Head}
use Rattle.definitions.specs.declared.Decl.{Decl}
use Rattle.definitions.specs.Bytes.{Text, part, pick}
use Rattle.definitions.specs.Keywords.{is_keyword}
use Rattle.definitions.specs.Refusals.{any_keyword, desc_names, cond_names, field_names, decl_names, is_frame}
use Rattle.definitions.specs.declared.Part.{Part}

-- ---- a name, and one that may be absent

abbrev pub free_name : Text → Part → Option Part
free_name s name = pick (is_keyword (part s name)) None (Some name)

abbrev pub screen_name : Text → Read Part → Read (Option Part)
screen_name s (Some (name, p)) = Some ((free_name s name), p)
screen_name s None = None

abbrev pub free_part : Text → Option Part → Option (Option Part)
free_part s None = (Some None)
free_part s (Some name) = pick (is_keyword (part s name)) None (Some (Some name))

abbrev pub screen_part : Text → Read (Option Part) → Read (Option (Option Part))
screen_part s (Some (name, p)) = Some ((free_part s name), p)
screen_part s None = None

-- ---- what is made of several lines

abbrev pub screen_desc : Text → Read FieldDesc → Read (Option FieldDesc)
screen_desc s (Some (desc, p)) = pick (any_keyword s (desc_names desc)) (Some (None, p)) (Some (Some desc, p))
screen_desc s None = None

abbrev pub screen_cond : Text → Read (Option Condition) → Read (Option (Option Condition))
screen_cond s (Some (cond, p)) = pick (any_keyword s (cond_names cond)) (Some (None, p)) (Some (Some cond, p))
screen_cond s None = None

abbrev pub screen_field : Text → Read Field → Read (Option Field)
screen_field s (Some (field, p)) = pick (any_keyword s (field_names field)) (Some (None, p)) (Some (Some field, p))
screen_field s None = None

abbrev pub screen_head : Text → Read Head → Read (Option Head)
screen_head s (Some (head, p)) = pick (is_keyword (part s head.target)) (Some (None, p)) (Some (Some head, p))
screen_head s None = None

abbrev pub screen_decl : Text → Read Decl → Read (Result Decl Bool)
screen_decl s (Some (decl, p)) =
    pick (any_keyword s (decl_names decl)) (Some (Err (is_frame decl.desc), p)) (Some (Ok decl, p))
screen_decl s None = None
