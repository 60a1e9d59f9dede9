use Rattle.std.proofs.Common.{◌≡◌, ℕ, ◌+◌, ◌-◌, ◌*◌, ◌<◌, ◌≢◌, true, nat_lt, List, inl, length, sym, subst, ap, ◌∙◌, arith}
use Rattle.std.proofs.lemmas.Bool.{cases_lt}
use Rattle.std.proofs.lemmas.List.Elements.{recursion_from_All}
use mathlib.Core.Logic.{⊎_elim}
use Rattle.om_frame.specs.FrameLaws.{All-zero_frames, held-page, held-with_zeros, page_bytes-with_frames}
use Rattle.om_frame.specs.Frames.{PageBytes, with_frames, zero_frames}
use Rattle.om_frame.specs.Memory as frames
use Rattle.om_geom.specs.Addresses.{address_of}
use Rattle.om_geom.specs.Numbers.{page_size}
use Rattle.om_opts.specs.declared.options.Opts.{Opts}
use Rattle.om_pages.specs.Kinds.{is_held}
use Rattle.om_pages.specs.TableLaws.{length-with_run, kind_of-with_run_in, kind_of-with_run_out}
use Rattle.om_pages.specs.Tables.{block_pages, kind_of}
use Rattle.om_pages.specs.declared.kind.PageKind.{PageKind}
use Rattle.om_pages.specs.declared.kind.PageKind.TheVariants.{Free}
use Rattle.om_pool.specs.HoldingsView.{tables_in}
use Rattle.om_pool.specs.Malloc.{IsOwnRun}
use Rattle.om_pool.specs.TableSteps.{claimed_run}
use Rattle.om_pool.specs.Tables.{Tables}
use Rattle.om_pool.proofs.TableRuns.{count-more}
use Rattle.om_pool.proofs.holdings.Holdings.grow_claimed.Goals as goal

-- memory that gets some pages has a page before them as it did
held-before : (memory : List (List ℕ)) (first n page : ℕ) → page < first → frames.is_held (with_frames memory (zero_frames first n)) page ≡ frames.is_held memory page
held-before memory first n page below =
    let Other : PageBytes → Type 0 = λ frame. page ≢ frame.page in
    ap (λ (bytes : List ℕ). nat_lt 0 (length bytes))
    (page_bytes-with_frames memory (zero_frames first n) page (recursion_from_All Other (zero_frames first n) (All-zero_frames Other first n (λ other low high same. absurd (omega arith)))))

pub grow_block-requires-clause-run : goal.grow_block-requires-clause-run
grow_block-requires-clause-run c =
    let old = c.args.self.now in
    let own = c.add_pages.new.self in
    let tables = tables_in old in
    let guards = old.opts.guard in
    let first = c.args.first.0 in
    let few = block_pages c.args.old guards in
    let n = block_pages c.args.new guards in
    let more = c.args.new - c.args.old in
    let after = first + few in
    let run = c.requires.run in
    let next = c.requires.next in
    let tied = c.requires.tied in
    let wider = c.requires.more in
    let count : few + more ≡ n = count-more c.args.old c.args.new guards (omega arith) in
    let came : tables_in own ≡ claimed_run tables (record { first = after; count = more }) =
    c.add_pages.ensures.tables ∙ ap (λ k. claimed_run tables (record { first = first + k; count = more })) c.with_guard.ensures in
    let pages_are = ap (λ (t : Tables). t.pages) came in
    let memory_is = ap (λ (t : Tables). t.memory) came in
    let long = length-with_run old.pages after more Free in
    let there = next.there in
    let blocks_there = run.in_blocks in
    let Is : ℕ → List PageKind → Type 0 = λ page t. (page < length t) × (is_held (kind_of t page) ≡ true) in
    let all : IsOwnRun own n first = record {
      there = next.there;
      one_zone = next.one_zone;
      held = λ page low high. subst (Is page) (sym pages_are) (⊎_elim
          (λ before.
          let was = run.held page low before in
          let in_table = was.0 in
          (omega (arith, long), ap is_held (kind_of-with_run_out old.pages after more Free page (inl before)) ∙ was.1))
          (λ past.
          let was = next.fresh page past (omega arith) in
          let in_table = was.0 in
          (omega (arith, long), ap is_held (kind_of-with_run_in old.pages after more Free page in_table past (omega arith))))
          (cases_lt page after));
      in_blocks = omega (arith, ap length c.add_pages.ensures.requests);
      bytes = λ page low high. ap (λ m. frames.is_held m page) memory_is ∙ ⊎_elim
          (λ before. held-before old.shelf after more page before ∙ run.bytes page low before)
          (λ past.
          let last = next.fresh (after + more - 1) (omega arith) (omega arith) in
          let in_table = last.0 in
          held-page (with_frames old.shelf (zero_frames after more)) (address_of after) (page_size * more) page
          (held-with_zeros old.shelf after more (omega (arith, tied.pages_all, tied.memory_all))) (omega arith) (omega arith))
          (cases_lt page after);
    } in
    subst (λ (o : Opts). IsOwnRun own (block_pages c.args.new o.guard) first) (sym (c.add_pages.ensures.same).opts) all
