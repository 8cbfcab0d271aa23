mod GroupLists
