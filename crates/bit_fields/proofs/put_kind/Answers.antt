-- `bit_fields::put_kind` meets its contract: each arm writes the lines of its case.
-- Assumes nothing.
use mathlib.Core.Path.{sym}
use Rattle.bit_fields.specs.Kinds.{kind_in, kind_text, set_text, condition_text, open_enum_text, closed_enum_text, fixed_scalar_text, fixed_enum_text}
use borrow.Author.Rules.{rules}
use Rattle.bit_fields.proofs.put_kind.Goals as goal

pub returns-in-Reserved : goal.returns-in-Reserved
unfolding kind_text kind_in
returns-in-Reserved c = search rules

pub returns-in-Number : goal.returns-in-Number
unfolding kind_text kind_in set_text
returns-in-Number c = rw (c.in-Number.is, sym c.name.ensures, sym c.end_name.ensures) c.put_set.ensures

pub returns-in-Condition : goal.returns-in-Condition
unfolding kind_text kind_in condition_text
returns-in-Condition c = rw (c.in-Condition.is, sym c.part.ensures) c.put_condition.ensures

pub returns-in-OpenEnum : goal.returns-in-OpenEnum
unfolding kind_text kind_in open_enum_text
returns-in-OpenEnum c = rw (c.in-OpenEnum.is, sym c.part-in-OpenEnum.ensures, sym c.part-in-OpenEnum-2.ensures) c.put_open_enum.ensures

pub returns-in-ClosedEnum : goal.returns-in-ClosedEnum
unfolding kind_text kind_in closed_enum_text
returns-in-ClosedEnum c = rw (c.in-ClosedEnum.is, sym c.part-in-ClosedEnum.ensures, sym c.part-in-ClosedEnum-2.ensures) c.put_closed_enum.ensures

pub returns-in-FixedScalar : goal.returns-in-FixedScalar
unfolding kind_text kind_in fixed_scalar_text
returns-in-FixedScalar c = rw (c.in-FixedScalar.is) c.put_fixed_scalar.ensures

pub returns-in-FixedEnum : goal.returns-in-FixedEnum
unfolding kind_text kind_in fixed_enum_text
returns-in-FixedEnum c = rw (c.in-FixedEnum.is, sym c.part-in-FixedEnum.ensures, sym c.part-in-FixedEnum-2.ensures) c.put_fixed_enum.ensures
