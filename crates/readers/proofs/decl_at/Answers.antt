-- `readers::decl_at` meets its contract, by the law of Chain.
-- Assumes nothing.
use mathlib.Core.Path.{refl}
use Rattle.definitions.specs.Record.{decl_at, packet_at, struct_at}
use Rattle.definitions.specs.declared.DeclDesc.{DeclDesc}
use Rattle.readers.proofs.Chain.{chain}
use borrow.Author.Rules.{rules}
use Rattle.readers.proofs.decl_at.Goals as goal

pub returns-in-Some : goal.returns-in-Some
unfolding decl_at packet_at
returns-in-Some c = let e = c.parented_at.ensures DeclDesc.Packet (λ parent. (refl, refl)) (λ parent d k. search rules) in search (chain, rules) depth 8

pub returns-in-Some-key_at : goal.returns-in-Some-key_at
unfolding decl_at struct_at
returns-in-Some-key_at c = let e = c.parented_at-in-Some-key_at.ensures DeclDesc.Struct (λ parent. (refl, refl)) (λ parent d k. search rules) in search (chain, rules) depth 8

pub returns-in-Some-key_at-2 : goal.returns-in-Some-key_at-2
unfolding decl_at
returns-in-Some-key_at-2 c = search (chain, rules) depth 8

pub returns-in-Some-key_at-3 : goal.returns-in-Some-key_at-3
unfolding decl_at
returns-in-Some-key_at-3 c = search (chain, rules) depth 8

pub returns-in-Some-key_at-4 : goal.returns-in-Some-key_at-4
unfolding decl_at
returns-in-Some-key_at-4 c = search (chain, rules) depth 8

pub returns : goal.returns
unfolding decl_at
returns c = search (chain, rules) depth 8
