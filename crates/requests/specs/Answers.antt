-- What a backing answers to a request, in writing, and what it means after.
use Rattle.std.specs.Prelude.{ℕ, Bool, if◌then◌else◌, List, ◌++◌, Some, None, codes, decimal, Option}
use Rattle.backing.specs.Meaning.{Meaning, count, commit_after, release_after}
use Rattle.backing.specs.Replies.{reply, written, commit_reply, release_reply}
use Rattle.requests.specs.declared.Request.{Request}
use Rattle.requests.specs.declared.Request.TheVariants as request
use Rattle.requests.specs.declared.answers.Answer.{Answer}
use Rattle.requests.specs.declared.answers.Answer.TheVariants as answer

-- yes or no
abbrev pub yes_no : Bool → List ℕ
yes_no held = if held then codes "yes" else codes "no"

-- an answer in writing: the request's word and what it answers
abbrev pub line_of : Answer → List ℕ
line_of (answer.Mask r) = codes "mask " ++ written (reply r)
line_of (answer.Limit r) = codes "limit " ++ written (reply r)
line_of (answer.Commit r) = codes "commit " ++ written (reply r)
line_of (answer.Release r) = codes "release " ++ written (reply r)
line_of (answer.Held held) = codes "held " ++ yes_no held
line_of (answer.Size n) = codes "size " ++ decimal n
line_of (answer.Allowance n) = codes "allowance " ++ decimal n
line_of (answer.Count n) = codes "count " ++ decimal n

-- what a backing answers to a request; one for a new backing or a limiter is not its to answer
abbrev pub answer_line : Meaning → Request → Option (List ℕ)
answer_line m (request.Mask granules) = None
answer_line m (request.Limit limit) = None
answer_line m (request.Commit stretch) = Some (codes "commit " ++ written (commit_reply m stretch.first stretch.count))
answer_line m (request.Release stretch) = Some (codes "release " ++ written (release_reply m stretch.first stretch.count))
answer_line m (request.Held granule) = Some (codes "held " ++ yes_no (m.held granule))
answer_line m request.Size = Some (codes "size " ++ decimal m.size)
answer_line m request.Allowance = Some (codes "allowance " ++ decimal m.allowance)
answer_line m request.Count = Some (codes "count " ++ decimal (count m))

-- a backing after a request
abbrev pub request_after : Meaning → Request → Meaning
request_after m (request.Mask granules) = m
request_after m (request.Limit limit) = m
request_after m (request.Commit stretch) = commit_after m stretch.first stretch.count
request_after m (request.Release stretch) = release_after m stretch.first stretch.count
request_after m (request.Held granule) = m
request_after m request.Size = m
request_after m request.Allowance = m
request_after m request.Count = m
