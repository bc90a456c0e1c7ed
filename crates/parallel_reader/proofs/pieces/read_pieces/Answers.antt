use Rattle.std.proofs.Common.{rules, ◌≡◌, ◌++◌, Bool, List, ℕ, Option, None, true, is_some, sym, ap, subst, ◌∙◌, IfNone, IfSome}
use Rattle.std.specs.Io.KnownBytes.{IsAtEnd}
use Rattle.swf_text.specs.Text.{lines}
use Rattle.parallel_reader.specs.Fronts.{AreJobsIn, Fills, Grows, IsReadBehind, PieceView}
use Rattle.parallel_reader.proofs.Fronts.{begun_so, no_jobs_in, ok_by, ok_map, returned, turned}
use Rattle.parallel_reader.proofs.pieces.read_pieces.Goals as goal

pub pieces-init : goal.pieces-init
pieces-init g c = record {
  jobs = no_jobs_in c.in_ok-ready.ready.lines c.in_ok-ready.ready.jobs c.in_ok-ready.ensures.lines c.in_ok-ready.ensures.jobs;
  read = λ head is. let f = c.in_ok-is_end.ensures.given in begun_so head c.args.tail.now c.in_ok-ready.ready.lines c.fill.new.self.lines c.fill.new.self.tail _ _ c.args.begun is c.in_ok-ready.ensures.lines f.0 f.1 f.2;
  ended = c.in_ok-is_end.ensures.end (λ e. absurd cc);
}

pub returns-in_default-clause-read : goal.returns-in_default-clause-read
returns-in_default-clause-read g c =
    let h = c.pieces.invariant in
    let ready = c.pieces.ready in
    let coming = c.pieces.coming in
    let none : c.in_ok-ended.field-0 ≡ None = search rules in
    let same = subst (λ (o : Option Bool). IfNone o ((c.read_beside.new.self.tail ≡ coming.tail) × (c.read_beside.new.ready ≡ ready) × (g.R.Read.remaining c.read_beside.new.reader ≡ g.R.Read.remaining c.pieces.reader))) none c.in_ok-ended.ensures.kept in
    let front : c.read_beside.new.front ≡ c.pieces.front = subst (λ (o : Option Bool). Grows c.pieces.front ready c.read_beside.new.front (is_some o)) none c.in_ok-ended.ensures.grows in
    let all : c.all.result.now ≡ coming.lines ++ coming.tail = c.all.ensures ∙ ap (λ (l : List ℕ). l ++ c.read_beside.new.self.tail) c.read_beside.ensures.lines ∙ ap (λ (l : List ℕ). coming.lines ++ l) same.0 in
    let front_lines : c.lines.result.now ≡ ready.lines = c.lines.ensures.lines ∙ ap (λ (p : PieceView). p.lines) same.1 in
    ok_by _ _ _ c.with_rest.result (λ read same_front same_rest head is.
    subst (λ (r : Option (List ℕ)). IsReadBehind (head ++ c.args.tail.now) (g.R.Read.remaining c.args.reader.now) r read.front read.rest.items) (sym same.2)
    (returned (head ++ c.args.tail.now) (ready.lines ++ (coming.lines ++ coming.tail)) _ _ _ c.pieces.front _ (h.read head is) (same_front ∙ front) (same_rest ∙ ap (λ (l : List ℕ). l ++ c.all.result.now) front_lines ∙ ap (λ (l : List ℕ). ready.lines ++ l) all)))
    c.with_rest.ensures.front c.with_rest.ensures.rest

pub returns-in_default-clause-ended : goal.returns-in_default-clause-ended
returns-in_default-clause-ended g c =
    let none : c.in_ok-ended.field-0 ≡ None = search rules in
    let same = subst (λ (o : Option Bool). IfNone o ((c.read_beside.new.self.tail ≡ c.pieces.coming.tail) × (c.read_beside.new.ready ≡ c.pieces.ready) × (g.R.Read.remaining c.read_beside.new.reader ≡ g.R.Read.remaining c.pieces.reader))) none c.in_ok-ended.ensures.kept in
    ok_map _ _ c.with_rest.result (λ read is ended. subst IsAtEnd (sym same.2) (c.pieces.invariant.ended (sym is ∙ ended))) c.with_rest.ensures.end

pub returns-then-is_empty-clause-read : goal.returns-then-is_empty-clause-read
returns-then-is_empty-clause-read g c =
    let h = c.pieces.invariant in
    let grows : Grows c.pieces.front c.pieces.ready c.read_beside.new.front true = subst (λ (o : Option Bool). Grows c.pieces.front c.pieces.ready c.read_beside.new.front (is_some o)) c.in-Some.is c.in_ok-ended.ensures.grows in
    let given = subst (λ (o : Option Bool). IfSome o (λ e. Fills (g.R.Read.remaining c.pieces.reader) (g.R.Read.remaining c.read_beside.new.reader) c.pieces.coming.tail c.read_beside.new.ready)) c.in-Some.is c.in_ok-ended.ensures.given in
    let filled = subst (λ (p : PieceView). Fills (g.R.Read.remaining c.pieces.reader) (g.R.Read.remaining c.read_beside.new.reader) c.pieces.coming.tail p) (sym c.swap.ensures.y_after) given in
    let same_lines : c.swap.new.x.lines ≡ c.pieces.coming.lines = ap (λ (p : PieceView). p.lines) c.swap.ensures.x_after ∙ c.read_beside.ensures.lines in
    ok_by _ _ _ c.with_rest-then-is_empty.result (λ read same_front same_rest head is.
    returned (head ++ c.args.tail.now) (c.swap.new.x.lines ++ (c.swap.new.y.lines ++ c.swap.new.y.tail)) _ _ _ c.read_beside.new.front _
    (turned (head ++ c.args.tail.now) c.pieces.ready c.pieces.coming c.swap.new.x c.swap.new.y _ _ _ c.pieces.front c.read_beside.new.front (h.read head is) (λ front it. grows front it h.jobs) filled same_lines) same_front
    (same_rest ∙ ap (λ (l : List ℕ). l ++ c.all-then-is_empty.result.now) c.lines-then-is_empty.ensures.lines ∙ ap (λ (l : List ℕ). c.swap.new.x.lines ++ l) c.all-then-is_empty.ensures))
    c.with_rest-then-is_empty.ensures.front c.with_rest-then-is_empty.ensures.rest

pub returns-then-is_empty-clause-ended : goal.returns-then-is_empty-clause-ended
returns-then-is_empty-clause-ended g c =
    let end = subst (λ (o : Option Bool). IfSome o (λ e. (c.pieces.is_end ≡ true → IsAtEnd (g.R.Read.remaining c.pieces.reader)) → e ≡ true → IsAtEnd (g.R.Read.remaining c.read_beside.new.reader))) c.in-Some.is c.in_ok-ended.ensures.end in
    ok_map _ _ c.with_rest-then-is_empty.result (λ read is ended. end c.pieces.invariant.ended (sym is ∙ ended)) c.with_rest-then-is_empty.ensures.end

pub pieces-preserved : goal.pieces-preserved
pieces-preserved g c =
    let h = c.pieces.invariant in
    let grows : Grows c.pieces.front c.pieces.ready c.read_beside.new.front true = subst (λ (o : Option Bool). Grows c.pieces.front c.pieces.ready c.read_beside.new.front (is_some o)) c.in-Some.is c.in_ok-ended.ensures.grows in
    let given = subst (λ (o : Option Bool). IfSome o (λ e. Fills (g.R.Read.remaining c.pieces.reader) (g.R.Read.remaining c.read_beside.new.reader) c.pieces.coming.tail c.read_beside.new.ready)) c.in-Some.is c.in_ok-ended.ensures.given in
    let filled = subst (λ (p : PieceView). Fills (g.R.Read.remaining c.pieces.reader) (g.R.Read.remaining c.read_beside.new.reader) c.pieces.coming.tail p) (sym c.swap.ensures.y_after) given in
    let end = subst (λ (o : Option Bool). IfSome o (λ e. (c.pieces.is_end ≡ true → IsAtEnd (g.R.Read.remaining c.pieces.reader)) → e ≡ true → IsAtEnd (g.R.Read.remaining c.read_beside.new.reader))) c.in-Some.is c.in_ok-ended.ensures.end in
    let same_lines : c.swap.new.x.lines ≡ c.pieces.coming.lines = ap (λ (p : PieceView). p.lines) c.swap.ensures.x_after ∙ c.read_beside.ensures.lines in
    record {
      jobs = subst (λ (p : PieceView). AreJobsIn (lines p.lines) p.jobs) (sym c.swap.ensures.x_after) c.in_ok-ended.ensures.read;
      read = λ head is. turned (head ++ c.args.tail.now) c.pieces.ready c.pieces.coming c.swap.new.x c.swap.new.y _ _ _ c.pieces.front c.read_beside.new.front (h.read head is) (λ front it. grows front it h.jobs) filled same_lines;
      ended = end h.ended;
    }

pub returns-clause-read : goal.returns-clause-read
returns-clause-read g c =
    let h = c.pieces.invariant in
    ok_by _ _ _ c.with_rest-2.result (λ read same_front same_rest head is.
    returned (head ++ c.args.tail.now) (c.pieces.ready.lines ++ (c.pieces.coming.lines ++ c.pieces.coming.tail)) _ _ _ c.pieces.front _ (h.read head is) same_front
    (same_rest ∙ ap (λ (l : List ℕ). l ++ c.all-2.result.now) c.lines-2.ensures.lines ∙ ap (λ (l : List ℕ). c.pieces.ready.lines ++ l) c.all-2.ensures))
    c.with_rest-2.ensures.front c.with_rest-2.ensures.rest
