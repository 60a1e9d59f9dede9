-- What the journals show of the calls of a script, and that the calls read from them are those that the script
-- made: their commands ascend, so an entry belongs to one call, and each has a reply of the caller's own pool.
use Rattle.std.proofs.Common.{◌≡◌, ℕ, zero, suc, ◌+◌, ◌-◌, ◌%◌, ◌<◌, ◌≤◌, Bool, true, false, cond, nat_eq, List, [], ◌∷◌, ◌++◌, length, get_or, map, take, refl, sym, ap, ◌∙◌, subst, arith, append-nil, append_assoc, eq-eqb, ne_eqb}
use Rattle.std.specs.List.{flat_map, enumerate_from, range_with_len, AllByRecursion}
use Rattle.std.proofs.lemmas.List.{take_more, length-take-le}
use Rattle.std.proofs.lemmas.List.Concat.{flat_map-append}
use Rattle.om_model.specs.Pool.WellFormed.{EachPair}
use Rattle.om_model.specs.Scripts.Calls.{IsSearch, IsAnswered, asked_of, asked_in, AreCalls}
use Rattle.om_model.specs.Slow.{seen_at, begun_by, reply_to, replies_at, replies_to, answered_from, calls_read}
use Rattle.om_model.specs.declared.entry.Asked.{Asked}
use Rattle.om_model.specs.declared.entry.Entry.{Entry}
use Rattle.om_model.specs.declared.operation.Call.{Call}
use Rattle.om_model.specs.declared.operation.Op.{Op}
use Rattle.om_model.specs.declared.operation.Op.TheVariants as op
use Rattle.om_model.specs.declared.reply.Reply.{Reply}
use Rattle.om_model.proofs.Each.{all-weaker, all-both}

-- what a journal shows of a call by a reply
abbrev pub shows : Call → ℕ → Reply → Asked
shows call hop reply = record { command = call.command; phase = call.phase; hop = hop; op = call.op; reply = reply }

pub range-more : (a n : ℕ) → range_with_len a (n + 1) ≡ range_with_len a n ++ (a + n) ∷ []
range-more a zero = let same : a ≡ a + 0 = omega arith in ap (λ k. k ∷ []) same
range-more a (suc n) =
    let more : suc n + 1 ≡ suc (n + 1) = omega arith in
    let last : a + 1 + n ≡ a + suc n = omega arith in
    rw more (ap (λ ks. a ∷ ks) (range-more (a + 1) n ∙ ap (λ k. range_with_len (a + 1) n ++ k ∷ []) last))

-- what holds of each of what a list is mapped to holds at an element
pub all-mapped : {X Y : Type 0} (P : Y → Type 0) (f : X → Y) (xs : List X) (i : ℕ) (x : X) → i < length xs → x ≡ get_or xs i x → AllByRecursion P (map f xs) → P (f x)
all-mapped P f [] i x lt is all = absurd (omega arith)
all-mapped P f (y ∷ ys) zero x lt is all = subst (λ z. P (f z)) (sym is) all.0
all-mapped P f (y ∷ ys) (suc i) x lt is all = all-mapped P f ys i x (omega arith) is all.1

pub enumerate-push : {X : Type 0} (n : ℕ) (xs : List X) (x : X) → enumerate_from n (xs ++ x ∷ []) ≡ enumerate_from n xs ++ (n + length xs, x) ∷ []
enumerate-push n [] x = let same : n ≡ n + 0 = omega arith in ap (λ k. (k, x) ∷ []) same
enumerate-push n (y ∷ ys) x =
    let last : n + 1 + length ys ≡ n + length (y ∷ ys) = omega arith in
    ap (λ rest. (n, y) ∷ rest) (enumerate-push (n + 1) ys x ∙ ap (λ k. enumerate_from (n + 1) ys ++ (k, x) ∷ []) last)

-- what the journal shows of one more reply comes last
pub asked-more : (pools caller pool : ℕ) (call : Call) (replies : List Reply) (hop : ℕ) (d : Reply) → hop < length replies
    → flat_map (asked_of pools caller pool call) (enumerate_from 0 (take (hop + 1) replies))
    ≡ flat_map (asked_of pools caller pool call) (enumerate_from 0 (take hop replies)) ++ asked_of pools caller pool call (hop, get_or replies hop d)
asked-more pools caller pool call replies hop d lt =
    let F = λ (xs : List (ℕ × Reply)). flat_map (asked_of pools caller pool call) xs in
    let reply = get_or replies hop d in
    let last : 0 + length (take hop replies) ≡ hop = omega (arith, length-take-le hop replies (omega arith)) in
    ap (λ xs. F (enumerate_from 0 xs)) (take_more replies hop d lt)
    ∙ ap F (enumerate-push 0 (take hop replies) reply ∙ ap (λ k. enumerate_from 0 (take hop replies) ++ (k, reply) ∷ []) last)
    ∙ flat_map-append (asked_of pools caller pool call) (enumerate_from 0 (take hop replies)) ((hop, reply) ∷ [])
    ∙ ap (λ xs. F (enumerate_from 0 (take hop replies)) ++ xs) (append-nil (asked_of pools caller pool call (hop, reply)))

pub asked-here : (pools caller pool : ℕ) (call : Call) (hop : ℕ) (reply : Reply) → (caller + hop) % pools ≡ pool
    → asked_of pools caller pool call (hop, reply) ≡ shows call hop reply ∷ []
asked-here pools caller pool call hop reply here = rw (eq-eqb ((caller + hop) % pools) pool here) refl

pub asked-elsewhere : (pools caller pool : ℕ) (call : Call) (hop : ℕ) (reply : Reply) → ((caller + hop) % pools ≡ pool → ⊥)
    → asked_of pools caller pool call (hop, reply) ≡ []
asked-elsewhere pools caller pool call hop reply other = rw (ne_eqb ((caller + hop) % pools) pool other) refl

pub push-follows : {X : Type 0} (begun before after part more one : List X) → before ≡ begun ++ part → after ≡ before ++ one → more ≡ part ++ one → after ≡ begun ++ more
push-follows begun before after part more one e pushed grown =
    pushed ∙ ap (λ xs. xs ++ one) e ∙ append_assoc begun part one ∙ ap (λ xs. begun ++ xs) (sym grown)

pub range-flat_map : {X : Type 0} (f : ℕ → List X) (n : ℕ) → flat_map f (range_with_len 0 (n + 1)) ≡ flat_map f (range_with_len 0 n) ++ f n
range-flat_map f n =
    let last : 0 + n ≡ n = omega arith in
    ap (flat_map f) (range-more 0 n ∙ ap (λ k. range_with_len 0 n ++ k ∷ []) last)
    ∙ flat_map-append f (range_with_len 0 n) (n ∷ []) ∙ ap (λ xs. flat_map f (range_with_len 0 n) ++ xs) (append-nil (f n))

-- ---- a call has a reply, and not more than there are pools

search-some : (pools : ℕ) (replies : List Reply) → IsSearch pools replies → 1 ≤ length replies
search-some pools [] is = absurd is
search-some pools (reply ∷ []) is = omega arith
search-some pools (reply ∷ next ∷ replies) is = omega arith

search-few : (pools : ℕ) (replies : List Reply) → 1 ≤ pools → IsSearch pools replies → length replies ≤ pools
search-few pools [] some is = absurd is
search-few pools (reply ∷ []) some is = omega arith
search-few pools (reply ∷ next ∷ replies) some is =
    let more : 1 < pools = is.1 in
    let others = search-few (pools - 1) (next ∷ replies) (omega arith) is.2 in
    omega arith

abbrev AreReplies : ℕ → List Reply → Type 0
AreReplies pools replies = (1 ≤ length replies) × (length replies ≤ pools)

one-reply : (pools : ℕ) (replies : List Reply) → 1 ≤ pools → length replies ≡ 1 → AreReplies pools replies
one-reply pools replies some is = (omega arith, omega arith)

searched-replies : (pools : ℕ) (replies : List Reply) → 1 ≤ pools → IsSearch pools replies → AreReplies pools replies
searched-replies pools replies some is = (search-some pools replies is, search-few pools replies some is)

are-replies : (pools : ℕ) (call : Op) (replies : List Reply) → 1 ≤ pools → IsAnswered pools call replies → AreReplies pools replies
are-replies pools (op.Malloc size site) replies some is = one-reply pools replies some is
are-replies pools (op.Calloc count size site) replies some is = one-reply pools replies some is
are-replies pools (op.Realloc address size site) replies some is = searched-replies pools replies some is
are-replies pools (op.Reallocarray address count size site) replies some is = searched-replies pools replies some is
are-replies pools (op.Free address) replies some is = searched-replies pools replies some is
are-replies pools (op.Load address) replies some is = searched-replies pools replies some is
are-replies pools (op.Store address byte) replies some is = searched-replies pools replies some is

-- ---- lists

flat_map-same : {X Y : Type 0} (f g : X → List Y) (xs : List X) → AllByRecursion (λ x. f x ≡ g x) xs → flat_map f xs ≡ flat_map g xs
flat_map-same f g [] all = refl
flat_map-same f g (x ∷ xs) all = rw all.0 (ap (λ ys. g x ++ ys) (flat_map-same f g xs all.1))

flat_map-none : {X Y : Type 0} (f : X → List Y) (xs : List X) → ((x : X) → f x ≡ []) → flat_map f xs ≡ []
flat_map-none f [] none = refl
flat_map-none f (x ∷ xs) none = rw (none x) (flat_map-none f xs none)

map-same : {X Y : Type 0} (f g : X → Y) (xs : List X) → ((x : X) → f x ≡ g x) → map f xs ≡ map g xs
map-same f g [] same = refl
map-same f g (x ∷ xs) same = rw (same x) (ap (λ ys. g x ∷ ys) (map-same f g xs same))

all-always : {X : Type 0} (P : X → Type 0) (xs : List X) → ((x : X) → P x) → AllByRecursion P xs
all-always P [] each = tt
all-always P (x ∷ xs) each = (each x, all-always P xs each)

all-from_map : {X Y : Type 0} (P : Y → Type 0) (f : X → Y) (xs : List X) → AllByRecursion P (map f xs) → AllByRecursion (λ x. P (f x)) xs
all-from_map P f [] all = tt
all-from_map P f (x ∷ xs) all = (all.0, all-from_map P f xs all.1)

range-from : (a n : ℕ) → AllByRecursion (λ i. a ≤ i) (range_with_len a n)
range-from a zero = tt
range-from a (suc n) = (omega arith, all-weaker (λ i. a + 1 ≤ i) (λ i. a ≤ i) (range_with_len (a + 1) n) (λ i le. omega arith) (range-from (a + 1) n))

-- ---- what one call shows

-- the entries of other hops
other-hop : (command hop : ℕ) (here : Bool) (asked : Asked) → (asked.hop ≡ hop → ⊥) → flat_map (reply_to command hop) (cond here (asked ∷ []) []) ≡ []
other-hop command hop true asked other = rw (ne_eqb asked.hop hop other) refl
other-hop command hop false asked other = refl

-- the entries of other commands
other-command : (command hop : ℕ) (here same : Bool) (asked : Asked) → nat_eq asked.hop hop ≡ same → (asked.command ≡ command → ⊥) → flat_map (reply_to command hop) (cond here (asked ∷ []) []) ≡ []
other-command command hop true true asked is other = rw (is, ne_eqb asked.command command other) refl
other-command command hop true false asked is other = rw is refl
other-command command hop false same asked is other = refl

hop-later : (pools caller pool : ℕ) (call : Call) (command hop k : ℕ) (replies : List Reply) → hop < k → flat_map (reply_to command hop) (flat_map (asked_of pools caller pool call) (enumerate_from k replies)) ≡ []
hop-later pools caller pool call command hop k [] lt = refl
hop-later pools caller pool call command hop k (reply ∷ replies) lt =
    let later = flat_map (asked_of pools caller pool call) (enumerate_from (k + 1) replies) in
    flat_map-append (reply_to command hop) (asked_of pools caller pool call (k, reply)) later
    ∙ rw (other-hop command hop (nat_eq ((caller + k) % pools) pool) (shows call k reply) (λ same. omega arith)) (hop-later pools caller pool call command hop (k + 1) replies (omega arith))

command-silent : (pools caller pool : ℕ) (call : Call) (command hop k : ℕ) (replies : List Reply) → (call.command ≡ command → ⊥) → flat_map (reply_to command hop) (flat_map (asked_of pools caller pool call) (enumerate_from k replies)) ≡ []
command-silent pools caller pool call command hop k [] other = refl
command-silent pools caller pool call command hop k (reply ∷ replies) other =
    let later = flat_map (asked_of pools caller pool call) (enumerate_from (k + 1) replies) in
    flat_map-append (reply_to command hop) (asked_of pools caller pool call (k, reply)) later
    ∙ rw (other-command command hop (nat_eq ((caller + k) % pools) pool) (nat_eq k hop) (shows call k reply) refl other) (command-silent pools caller pool call command hop (k + 1) replies other)

first-hop : (pools caller k : ℕ) (call : Call) (reply : Reply) → flat_map (reply_to call.command k) (asked_of pools caller ((caller + k) % pools) call (k, reply)) ≡ reply ∷ []
first-hop pools caller k call reply =
    ap (flat_map (reply_to call.command k)) (asked-here pools caller ((caller + k) % pools) call k reply refl)
    ∙ rw (eq-eqb k k refl, eq-eqb call.command call.command refl) refl

-- the replies of the call from the k-th on, found hop by hop
abbrev own-from : ℕ → ℕ → Call → ℕ → List Reply → ℕ → List Reply
own-from pools caller call k replies hop = flat_map (reply_to call.command hop) (flat_map (asked_of pools caller ((caller + hop) % pools) call) (enumerate_from k replies))

own-replies : (pools caller : ℕ) (call : Call) (k n : ℕ) (replies : List Reply) → length replies ≤ n → flat_map (own-from pools caller call k replies) (range_with_len k n) ≡ replies
own-replies pools caller call k n [] le = flat_map-none (own-from pools caller call k []) (range_with_len k n) (λ hop. refl)
own-replies pools caller call k zero (reply ∷ replies) le = absurd (omega arith)
own-replies pools caller call k (suc n) (reply ∷ replies) le =
    let split = λ (hop : ℕ). flat_map-append (reply_to call.command hop) (asked_of pools caller ((caller + hop) % pools) call (k, reply)) (flat_map (asked_of pools caller ((caller + hop) % pools) call) (enumerate_from (k + 1) replies)) in
    let lt : k < k + 1 = omega arith in
    let here : own-from pools caller call k (reply ∷ replies) k ≡ reply ∷ [] =
    split k ∙ rw (first-hop pools caller k call reply) (ap (λ rs. reply ∷ rs) (hop-later pools caller ((caller + k) % pools) call call.command k (k + 1) replies lt)) in
    let later : AllByRecursion (λ hop. own-from pools caller call k (reply ∷ replies) hop ≡ own-from pools caller call (k + 1) replies hop) (range_with_len (k + 1) n) =
    all-weaker (λ hop. k + 1 ≤ hop) (λ hop. own-from pools caller call k (reply ∷ replies) hop ≡ own-from pools caller call (k + 1) replies hop) (range_with_len (k + 1) n)
    (λ hop le. split hop ∙ rw (other-hop call.command hop (nat_eq ((caller + k) % pools) ((caller + hop) % pools)) (shows call k reply) (λ same. omega arith)) refl)
    (range-from (k + 1) n) in
    rw here (ap (λ rs. reply ∷ rs) (flat_map-same (own-from pools caller call k (reply ∷ replies)) (own-from pools caller call (k + 1) replies) (range_with_len (k + 1) n) later
    ∙ own-replies pools caller call (k + 1) n replies (omega arith)))

-- ---- what all calls show

-- the pools' journals, as they have to be
abbrev shown : ℕ → ℕ → List (Call × List Reply) → ℕ → List Asked
shown pools caller answered pool = flat_map (asked_in pools caller pool) answered

rest-silent : (pools caller pool command hop : ℕ) (answered : List (Call × List Reply)) → AllByRecursion (λ a. command < (a.0).command) answered → flat_map (reply_to command hop) (shown pools caller answered pool) ≡ []
rest-silent pools caller pool command hop [] later = refl
rest-silent pools caller pool command hop (a ∷ answered) later =
    let above : command < (a.0).command = later.0 in
    flat_map-append (reply_to command hop) (asked_in pools caller pool a) (shown pools caller answered pool)
    ∙ rw (command-silent pools caller pool a.0 command hop 0 a.1 (λ same. omega arith)) (rest-silent pools caller pool command hop answered later.1)

-- the entries of the first call alone have its command
first-read : (pools caller : ℕ) (a : Call × List Reply) (answered : List (Call × List Reply)) → length a.1 ≤ pools → AllByRecursion (λ b. (a.0).command < (b.0).command) answered
    → replies_to pools caller (shown pools caller (a ∷ answered)) (a.0).command ≡ a.1
first-read pools caller a answered le later =
    let command = (a.0).command in
    flat_map-same (replies_at pools caller (shown pools caller (a ∷ answered)) command) (own-from pools caller a.0 0 a.1) (range_with_len 0 pools)
    (all-always (λ hop. replies_at pools caller (shown pools caller (a ∷ answered)) command hop ≡ own-from pools caller a.0 0 a.1 hop) (range_with_len 0 pools)
    (λ hop. let pool = (caller + hop) % pools in
    flat_map-append (reply_to command hop) (asked_in pools caller pool a) (shown pools caller answered pool)
    ∙ rw (rest-silent pools caller pool command hop answered later) (append-nil (own-from pools caller a.0 0 a.1 hop))))
    ∙ own-replies pools caller a.0 0 pools a.1 le

-- and none of a later command
later-read : (pools caller command : ℕ) (a : Call × List Reply) (answered : List (Call × List Reply)) → (a.0).command < command
    → replies_to pools caller (shown pools caller (a ∷ answered)) command ≡ replies_to pools caller (shown pools caller answered) command
later-read pools caller command a answered lt =
    flat_map-same (replies_at pools caller (shown pools caller (a ∷ answered)) command) (replies_at pools caller (shown pools caller answered) command) (range_with_len 0 pools)
    (all-always (λ hop. replies_at pools caller (shown pools caller (a ∷ answered)) command hop ≡ replies_at pools caller (shown pools caller answered) command hop) (range_with_len 0 pools)
    (λ hop. let pool = (caller + hop) % pools in
    flat_map-append (reply_to command hop) (asked_in pools caller pool a) (shown pools caller answered pool)
    ∙ rw (command-silent pools caller pool a.0 command hop 0 a.1 (λ same. omega arith)) refl))

each-read : (pools caller : ℕ) (answered : List (Call × List Reply)) → AllByRecursion (λ a. AreReplies pools a.1) answered → EachPair (λ a b. a.command < b.command) (map (λ a. a.0) answered)
    → AllByRecursion (λ a. replies_to pools caller (shown pools caller answered) (a.0).command ≡ a.1) answered
each-read pools caller [] each ascend = tt
each-read pools caller (a ∷ answered) each ascend =
    let later = all-from_map (λ (b : Call). (a.0).command < b.command) (λ (b : Call × List Reply). b.0) answered ascend.0 in
    let seen = shown pools caller (a ∷ answered) in (
      first-read pools caller a answered (each.0).1 later,
      all-both (λ b. (a.0).command < (b.0).command) (λ b. replies_to pools caller (shown pools caller answered) (b.0).command ≡ b.1) (λ b. replies_to pools caller seen (b.0).command ≡ b.1) answered
          (λ b lt is. later-read pools caller (b.0).command a answered lt ∙ is) later (each-read pools caller answered each.1 ascend.1),
    )

-- ---- the calls begin in the caller's own pool

begun-later : (pools caller pool k : ℕ) (call : Call) (replies : List Reply) → 0 < k → flat_map begun_by (flat_map (asked_of pools caller pool call) (enumerate_from k replies)) ≡ []
begun-later pools caller pool k call [] lt = refl
begun-later pools caller pool k call (reply ∷ replies) lt =
    flat_map-append begun_by (asked_of pools caller pool call (k, reply)) (flat_map (asked_of pools caller pool call) (enumerate_from (k + 1) replies))
    ∙ rw (none-begun (nat_eq ((caller + k) % pools) pool) (shows call k reply) lt) (begun-later pools caller pool (k + 1) call replies (omega arith))
  where
    none-begun : (here : Bool) (asked : Asked) → 0 < asked.hop → flat_map begun_by (cond here (asked ∷ []) []) ≡ []
    none-begun true asked lt = let other : (asked.hop ≡ 0 → ⊥) = λ same. omega arith in rw (ne_eqb asked.hop 0 other) refl
    none-begun false asked lt = refl

begun-once : (pools caller : ℕ) (call : Call) (replies : List Reply) → 1 ≤ length replies → flat_map begun_by (asked_in pools caller (caller % pools) (call, replies)) ≡ call ∷ []
begun-once pools caller call [] some = absurd (omega arith)
begun-once pools caller call (reply ∷ replies) some =
    let pool = caller % pools in
    let lt : 0 < 0 + 1 = omega arith in
    let own : (caller + 0) % pools ≡ pool = let same : caller + 0 ≡ caller = omega arith in ap (λ n. n % pools) same in
    flat_map-append begun_by (asked_of pools caller pool call (0, reply)) (flat_map (asked_of pools caller pool call) (enumerate_from (0 + 1) replies))
    ∙ rw (asked-here pools caller pool call 0 reply own) (ap (λ calls. call ∷ calls) (begun-later pools caller pool (0 + 1) call replies lt))

all-begun : (pools caller : ℕ) (answered : List (Call × List Reply)) → AllByRecursion (λ a. AreReplies pools a.1) answered → flat_map begun_by (shown pools caller answered (caller % pools)) ≡ map (λ a. a.0) answered
all-begun pools caller [] each = refl
all-begun pools caller (a ∷ answered) each =
    flat_map-append begun_by (asked_in pools caller (caller % pools) a) (shown pools caller answered (caller % pools))
    ∙ rw (begun-once pools caller a.0 a.1 (each.0).0) (ap (λ calls. a.0 ∷ calls) (all-begun pools caller answered each.1))

-- ---- together

answered-again : (f : Call → List Reply) (answered : List (Call × List Reply)) → AllByRecursion (λ a. f a.0 ≡ a.1) answered → map (λ call. (call, f call)) (map (λ a. a.0) answered) ≡ answered
answered-again f [] all = refl
answered-again f (a ∷ answered) all =
    let first : (a.0, f a.0) ≡ a = ap (λ replies. (a.0, replies)) all.0 in
    rw first (ap (λ rest. a ∷ rest) (answered-again f answered all.1))

-- from journals that show the calls, these calls are read
read-shown : (pools caller : ℕ) (answered : List (Call × List Reply)) → AllByRecursion (λ a. AreReplies pools a.1) answered → EachPair (λ a b. a.command < b.command) (map (λ a. a.0) answered)
    → calls_read pools caller (shown pools caller answered) ≡ answered
read-shown pools caller answered each ascend =
    let seen = shown pools caller answered in
    ap (map (answered_from pools caller seen)) (all-begun pools caller answered each)
    ∙ answered-again (λ call. replies_to pools caller seen call.command) answered (each-read pools caller answered each ascend)

-- what is read depends on the pools' journals alone
same-read : (pools caller : ℕ) (seen other : ℕ → List Asked) → 1 ≤ pools → ((pool : ℕ) → pool < pools → seen pool ≡ other pool) → calls_read pools caller seen ≡ calls_read pools caller other
same-read pools caller seen other some same =
    let within = λ (n : ℕ). same (n % pools) (omega arith) in
    ap (λ asked. map (answered_from pools caller seen) (flat_map begun_by asked)) (within caller)
    ∙ map-same (answered_from pools caller seen) (answered_from pools caller other) (flat_map begun_by (other (caller % pools)))
    (λ call. ap (λ replies. (call, replies)) (flat_map-same (replies_at pools caller seen call.command) (replies_at pools caller other call.command) (range_with_len 0 pools)
    (all-always (λ hop. replies_at pools caller seen call.command hop ≡ replies_at pools caller other call.command hop) (range_with_len 0 pools)
    (λ hop. ap (flat_map (reply_to call.command hop)) (within (caller + hop))))))

pub read-again : (pools caller : ℕ) (answered : List (Call × List Reply)) (journals : List (List Entry)) → 1 ≤ pools → EachPair (λ a b. a.command < b.command) (map (λ a. a.0) answered)
    → AreCalls pools caller answered journals → answered ≡ calls_read pools caller (seen_at caller journals)
read-again pools caller answered journals some ascend calls =
    let each = all-weaker (λ a. IsAnswered pools (a.0).op a.1) (λ a. AreReplies pools a.1) answered (λ a is. are-replies pools (a.0).op a.1 some is) calls.each in
    sym (same-read pools caller (seen_at caller journals) (shown pools caller answered) some calls.stand ∙ read-shown pools caller answered each ascend)
