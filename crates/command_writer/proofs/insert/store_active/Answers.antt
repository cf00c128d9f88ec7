-- `command_writer::insert::store_active`, by the mode.
use mathlib.Core.List.{List, []}
use mathlib.Core.Path.{◌≡◌, ap, sym, ◌∙◌}
use Rattle.command.specs.Command.{array}
use Rattle.command.specs.Insert.{count}
use Rattle.command.specs.declared.components.InsertComponent.{InsertComponent}
use Rattle.command.specs.declared.insert.SpliceMode.{SpliceMode}
use Rattle.bit_stores.proofs.Tables.{pens_same}
use Rattle.command_measure.specs.Fields.{ink, places_of, active_fields}
use Rattle.command_writer.proofs.Storing.{fits_same, none_active}
use Rattle.command_writer.proofs.insert.store_active.Goals as goal

pub store_by_program-requires : goal.store_by_program-requires
store_by_program-requires c =
    let a = c.args in
    (c.in-Program.is, fits_same a.out.now a.c _ _ (none_active a.insert (array []) (ap count c.in-Program.is)) c.requires)

pub store_by_none-requires : goal.store_by_none-requires
store_by_none-requires c =
    let none : c.args.insert.splice_mode ≡ SpliceMode.Components 0 = c.in-Components.is ∙ ap SpliceMode.Components c.if-n-eq0.true in
    let a = c.args in
    (none, fits_same a.out.now a.c _ _ (none_active a.insert (array []) (ap count none)) c.requires)

pub returns-then-n-eq0 : goal.returns-then-n-eq0
returns-then-n-eq0 c =
    let none : c.args.insert.splice_mode ≡ SpliceMode.Components 0 = c.in-Components.is ∙ ap SpliceMode.Components c.if-n-eq0.true in
    let a = c.args in
    pens_same a.out.now a.c _ _ _ _ (ap ink (sym (none_active a.insert (array []) (ap count none)))) c.store_by_none.ensures

pub store_listed-requires : goal.store_listed-requires
store_listed-requires c =
    let a = c.args in
    (c.in-Components.is, fits_same a.out.now a.c _ _ (ap (λ (cs : List InsertComponent). active_fields a.insert (places_of a.insert cs)) (sym c.blanks.ensures)) c.requires)

pub returns-in-Program : goal.returns-in-Program
returns-in-Program c =
    let a = c.args in
    pens_same a.out.now a.c _ _ _ _ (ap ink (sym (none_active a.insert (array []) (ap count c.in-Program.is)))) c.store_by_program.ensures

pub returns-else-n-eq0 : goal.returns-else-n-eq0
returns-else-n-eq0 c =
    let a = c.args in
    pens_same a.out.now a.c _ _ _ _ (ap (λ (cs : List InsertComponent). ink (active_fields a.insert (places_of a.insert cs))) c.blanks.ensures) c.store_listed.ensures
