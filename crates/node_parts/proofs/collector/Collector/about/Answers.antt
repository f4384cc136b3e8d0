use Rattle.std.specs.Prelude.{◌&&◌}
use Rattle.std.proofs.Common.{◌==◌, refl, ap, sym, subst, ◌∙◌}
use Rattle.std.proofs.lemmas.Bool.{and_parts}
use Rattle.gc_model.specs.Collecting.{keyed}
use Rattle.table_gc.proofs.Keyed.{same_key}
use Rattle.cluster_machine.specs.Rows.{same_bytes}
use Rattle.cluster_machine.specs.Collects.{is_aged}
use Rattle.node_parts.specs.Collects.{Begins}
use Rattle.node_parts.proofs.AboutOne.{about_begins, about_closes, about_full, about_goes, about_none, is_written, not_written}
use Rattle.node_parts.proofs.Faults.{passed_on}
use Rattle.node_parts.proofs.collector.Collector.about.Goals as goal

pub returns-in_err-bytes-clause-causes : goal.returns-in_err-bytes-clause-causes
returns-in_err-bytes-clause-causes g c = passed_on c.from_residual.result c.in_err-bytes.field-0.0 c.from_residual.ensures.1 c.in_err-bytes.ensures.causes (λ none. not_written g.S.Row.Crdt.join g.S.Schema.words c.args.self c.args.row.now c.args.gc.now none)

-- ---- there is no collection of it

pub returns-then-not-is_aged-clause-about : goal.returns-then-not-is_aged-clause-about
returns-then-not-is_aged-clause-about g c =
    let join = g.S.Row.Crdt.join in
    let words = g.S.Schema.words in
    let gc = c.args.gc.now in
    let none = ap (λ key. keyed key gc) (sym (c.as_slice.ensures ∙ c.in_ok-key.ensures.is)) ∙ sym c.in-None.ensures.is in
    let young = ap (is_aged c.args.self.now) (sym c.marker.ensures) ∙ (sym c.is_aged.ensures ∙ c.if-not-is_aged.true) in
    record {
      done = about_none join words c.args.self c.args.row.now gc none c.args.out.now.items young;
      spelled = is_written join words c.args.self c.args.row.now gc c.in_ok-bytes.bytes c.in_ok-bytes.ensures.are;
    }

pub returns-in_err-begin-in-None-clause-causes : goal.returns-in_err-begin-in-None-clause-causes
returns-in_err-begin-in-None-clause-causes g c =
    let join = g.S.Row.Crdt.join in
    let words = g.S.Schema.words in
    let gc = c.args.gc.now in
    let none = ap (λ key. keyed key gc) (sym (c.as_slice.ensures ∙ c.in_ok-key.ensures.is)) ∙ sym c.in-None.ensures.is in
    let old = ap (is_aged c.args.self.now) (sym c.marker.ensures) ∙ (sym c.is_aged.ensures ∙ c.if-not-is_aged.false) in
    passed_on c.from_residual-in_err-begin-in-None.result c.in_err-begin-in-None.field-0.0 c.from_residual-in_err-begin-in-None.ensures.1 c.in_err-begin-in-None.ensures.causes
    (about_full join words c.args.self c.args.row.now gc none c.in_ok-bytes.bytes c.in_ok-bytes.ensures.are old)

pub returns-in_ok-begin-in-None-clause-about : goal.returns-in_ok-begin-in-None-clause-about
returns-in_ok-begin-in-None-clause-about g c =
    let join = g.S.Row.Crdt.join in
    let words = g.S.Schema.words in
    let self = c.args.self in
    let gc = c.args.gc.now in
    let bytes = c.in_ok-bytes.bytes in
    let none = ap (λ key. keyed key gc) (sym (c.as_slice.ensures ∙ c.in_ok-key.ensures.is)) ∙ sym c.in-None.ensures.is in
    let old = ap (is_aged self.now) (sym c.marker.ensures) ∙ (sym c.is_aged.ensures ∙ c.if-not-is_aged.false) in
    record {
      done = about_begins join words self c.args.row.now gc none bytes c.in_ok-bytes.ensures.are old c.begin.new.gc c.args.out.now.items c.begin.new.out.items
          (subst (λ key. Begins self key bytes gc c.begin.new.gc c.args.out.now.items c.begin.new.out.items) c.in_ok-key.ensures.is c.in_ok-begin-in-None.ensures.begins);
      spelled = is_written join words self c.args.row.now gc bytes c.in_ok-bytes.ensures.are;
    }

-- ---- there is one

pub returns-then-not-is_same-clause-about : goal.returns-then-not-is_same-clause-about
returns-then-not-is_same-clause-about g c =
    let join = g.S.Row.Crdt.join in
    let words = g.S.Schema.words in
    let gc = c.args.gc.now in
    let bytes = c.in_ok-bytes.bytes in
    let found = ap (λ key. keyed key gc) (sym (c.as_slice.ensures ∙ c.in_ok-key.ensures.is)) ∙ sym c.in-Some.ensures.is in
    let other = ap (λ b. same_bytes b c.in-Some.collection.now.row && (c.args.self.newest == c.in-Some.collection.now.newest)) (sym c.as_slice-in-Some.ensures) ∙ (sym c.is_same.ensures ∙ c.if-not-is_same.true) in
    record {
      done = about_closes join words c.args.self c.args.row.now gc c.in-Some.collection.now found bytes c.in_ok-bytes.ensures.are c.args.out.now.items other c.close.new.self c.close.ensures;
      spelled = is_written join words c.args.self c.args.row.now gc bytes c.in_ok-bytes.ensures.are;
    }

pub returns-in_ok-go_on-in-Some-clause-about : goal.returns-in_ok-go_on-in-Some-clause-about
returns-in_ok-go_on-in-Some-clause-about g c =
    let join = g.S.Row.Crdt.join in
    let words = g.S.Schema.words in
    let gc = c.args.gc.now in
    let bytes = c.in_ok-bytes.bytes in
    let o = c.in-Some.collection.now in
    let found = ap (λ key. keyed key gc) (sym (c.as_slice.ensures ∙ c.in_ok-key.ensures.is)) ∙ sym c.in-Some.ensures.is in
    let same = ap (λ b. same_bytes b o.row && (c.args.self.newest == o.newest)) (sym c.as_slice-in-Some.ensures) ∙ (sym c.is_same.ensures ∙ c.if-not-is_same.false) in
    record {
      done = about_goes join words c.args.self c.args.row.now gc o found bytes c.in_ok-bytes.ensures.are same c.go_on.new.gc c.args.out.now.items c.go_on.new.out.items
          (c.in_ok-go_on-in-Some.ensures.goes_on o c.in-Some.ensures.numbered);
      spelled = is_written join words c.args.self c.args.row.now gc bytes c.in_ok-bytes.ensures.are;
    }

pub go_on-requires : goal.go_on-requires
go_on-requires g c =
    let o = c.in-Some.collection.now in
    let same = ap (λ b. same_bytes b o.row && (c.args.self.newest == o.newest)) (sym c.as_slice-in-Some.ensures) ∙ (sym c.is_same.ensures ∙ c.if-not-is_same.false) in
    record {
      there = record {
        it = o;
        found = c.in-Some.ensures.numbered;
        round_is = refl;
        ready_is = refl;
        row_is = sym (same_key c.in_ok-bytes.bytes o.row (and_parts (same_bytes c.in_ok-bytes.bytes o.row) (c.args.self.newest == o.newest) same).0);
      };
    }
